-- What the code finds of an item is what the model says of it.
pub mod First
pub mod Item
pub mod Judging
