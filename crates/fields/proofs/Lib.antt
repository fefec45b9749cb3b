-- Laws of the words of an item's content.
pub mod Words
