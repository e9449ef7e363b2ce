mod RowPlaces
