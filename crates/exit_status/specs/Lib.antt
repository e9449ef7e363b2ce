-- what `ExitStatus`, `say` and `say_rows` promise
pub mod Status
pub mod Output
pub mod Said
