-- What is proved of the numbers of answers.
pub mod Numbers
