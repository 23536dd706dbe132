-- What a writer answers and leaves in the caller's buffer. Assumes nothing.
use Rattle.std.specs.Prelude.{ℕ, cond, List, ◌++◌, length, drop, Ok, Err, Result, nat_le}
use Rattle.image.specs.declared.writer.TooShort.{TooShort}

-- The bytes stand at the buffer's front, its other bytes stay, and the answer is their number; or the buffer is too short and stays as it is.
abbrev pub written : List ℕ → List ℕ → Result ℕ TooShort × List ℕ
written bytes old = cond (nat_le (length bytes) (length old)) (Ok (length bytes), bytes ++ drop (length bytes) old) (Err (record { need = length bytes }), old)
