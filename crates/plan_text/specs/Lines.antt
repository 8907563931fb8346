-- The lines of a text, as `flow_model` says what they are.
pub use Rattle.flow_model.specs.Lines.{newline, onto_first, lines_of, is_line, IsCut}
