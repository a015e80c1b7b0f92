-- The scan of lowering, and how lent lists stand for it slot by slot.
pub mod Scan
pub mod Pools
