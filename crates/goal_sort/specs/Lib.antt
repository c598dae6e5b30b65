pub mod Operators
pub mod SortGiving
pub mod SortedNumbers
pub mod Sorting
pub mod Heads
pub mod Kinds
pub mod IsSorted
