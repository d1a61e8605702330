pub mod CountsWithinLimits
pub mod Clear
pub mod Marking
pub mod Moving
pub mod Reaching
pub mod SoundEvents
pub mod SoundTables
pub mod Sound
