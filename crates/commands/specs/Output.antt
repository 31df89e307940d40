-- What is put into an output.
use Rattle.std.specs.Prelude.{ℕ, ◌+◌, ◌≤◌, List, ◌++◌, ◌≡◌, length, take}
use Rattle.commands.specs.declared.output.Output.{Output}

-- there is room for n more bytes
abbrev pub HasRoom : Output → ℕ → Type 0
HasRoom out n = out.at + n ≤ length out.bytes.now

-- A text was put into an output. The bytes before its place are kept; the place is behind the text then.
pub record Appended (before : Output) (text : List ℕ) (after : Output) : Type 0 where
  pub bytes : take after.at after.bytes.now ≡ take before.at before.bytes.now ++ text
  pub next_is : after.at ≡ before.at + length text
  pub same_length : length after.bytes.now ≡ length before.bytes.now
  pub same_slice : after.bytes.ghost_name ≡ before.bytes.ghost_name
