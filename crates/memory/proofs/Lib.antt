pub mod Walks
pub mod Leads
pub mod MessageTables
pub mod Performed
pub mod Shapings
pub mod Ceilings
