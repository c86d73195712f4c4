-- What the library's table of pairs is worth: `fit_number` and `fit_line`, which are lent a table, promise a text by whatever it holds; by this one it is the number's and the line's.
use Rattle.std.specs.Prelude.{ℕ, List, ◌≡◌, length, Option}
use Rattle.lines.specs.Pairs.{line_by}
use Rattle.numbers.specs.Pairs.{HasPairs, number_by, pairs}
use Rattle.text.specs.Lines.{line}
use Rattle.text.specs.Numbers.{number}
use Rattle.text.specs.declared.Line.{Line}

pub record ByPairs : Type 0 where
  -- it has the two digits of each number below a hundred
  pub rule : HasPairs pairs
  -- by a table that does, every number and every line is its text
  pub numbers : (table : List ℕ) → HasPairs table → (n : ℕ) → number_by table n ≡ number n
  pub lines : (table : List ℕ) → HasPairs table → (l : Line) (event : Option (Option (List ℕ))) (name : Option (List ℕ)) → line_by table l event name ≡ line l event name
  -- a table by which every number is its text does
  pub only : (table : List ℕ) → ((n : ℕ) → number_by table n ≡ number n) → HasPairs table
  -- and by any table both are as long as their texts
  pub number_lengths : (table : List ℕ) (n : ℕ) → length (number_by table n) ≡ length (number n)
  pub line_lengths : (table : List ℕ) (l : Line) (event : Option (Option (List ℕ))) (name : Option (List ℕ))
      → length (line_by table l event name) ≡ length (line l event name)
