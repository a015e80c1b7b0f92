-- Laws of the calls on bytes.
pub mod ByteCallLaws
