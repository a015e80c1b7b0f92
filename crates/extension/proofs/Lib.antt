pub mod ExtLaws
