pub mod OneCycle
pub mod Filled
pub mod PeriodTable
pub mod WholeCycle
pub mod Once
