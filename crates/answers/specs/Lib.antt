-- The numbered answers of document 01: their numbers and values, and how definitions put them in order.
pub mod Numbers
pub mod Order
pub mod OrderLaws
