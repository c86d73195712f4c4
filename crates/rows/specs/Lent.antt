-- What a call leaves in a buffer that it is lent for its result: bytes at the front where it is accepted, nothing in a refusal, and the rest as it was.
use Rattle.std.specs.Prelude.{ℕ, List, [], ◌++◌, length, drop, Err, Ok}
use Rattle.rows.specs.Rows.{Verdict}

-- what is written: nothing in a refusal
abbrev pub written : Verdict → List ℕ → List ℕ
written (Err f) bytes = []
written (Ok tt) bytes = bytes

-- the buffer then: bytes past what is written stay
abbrev pub left_in : List ℕ → Verdict → List ℕ → List ℕ
left_in old v bytes = written v bytes ++ drop (length (written v bytes)) old
