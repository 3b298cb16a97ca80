mod RowWords
mod Longest
