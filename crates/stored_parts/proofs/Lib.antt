-- Laws of words of bytes, trailer and framing.
pub mod WordLaws
