pub mod OwnFunctions
