-- The laws of a row in spans.
pub mod SpanLaws
