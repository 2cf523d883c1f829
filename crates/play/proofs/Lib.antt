pub mod DecimalLaws
