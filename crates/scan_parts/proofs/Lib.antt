-- Laws of slots and of the words of a node.
pub mod UpdLaws
pub mod PoolLaws
pub mod SpellLaws
