-- The cubic extension of the field.
pub mod Ext
pub mod Tower
