-- `words::whole` meets its contract: the part is the bytes at the place.
use Rattle.std.proofs.Common.{◌≡◌, ℕ, ◌+◌, ◌-◌, List, Bor, ◌∙◌, arith}
use Rattle.std.specs.declared.option.Option.{Option}
use Rattle.std.specs.declared.option.Option.TheVariants.{None, Some}
use Rattle.std.specs.Array.{IsWholeChunk}
use Rattle.std.specs.Option.{IfSome, MatchOption}
use Rattle.words.proofs.Chunks.{part_of}
use Rattle.words.proofs.whole.Goals as goal

found : (A : Type 0) (r : Option (Bor (List ℕ))) (n : ℕ) (part bytes : List ℕ) → MatchOption r A (λ y. IsWholeChunk part y.now n) → part ≡ bytes → IfSome r (λ y. y.now ≡ bytes)
found A None n part bytes given same = tt
found A (Some y) n part bytes given same = given.same ∙ same

pub returns : goal.returns
returns g c =
    found _ c.as_array.result g.row.N _ _ c.as_array.ensures.cases (part_of g.row.N c.args.bytes.now c.args.at (c.args.at + g.row.N - c.args.at) (omega arith) (omega arith))
