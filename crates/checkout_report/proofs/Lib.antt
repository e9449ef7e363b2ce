mod RowPlaces
mod RowCells
