pub mod BuilderByteLaws
