pub mod Rank
pub mod Views
pub mod Like
pub mod Renamed
pub mod Counting
pub mod Both
