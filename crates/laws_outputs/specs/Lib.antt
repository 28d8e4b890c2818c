pub mod NamesInOrder
pub mod Again
