-- What is printed, as its reader sees it: it reads back, no two print alike, no line is longer than its bound, and 0 says that there was no room.
use Rattle.std.specs.Prelude.{ℕ, ◌+◌, ◌*◌, ◌≤◌, ◌<◌, List, ◌++◌, ◌≡◌, length, drop, Option}
use Rattle.text.specs.Lines.{Fit64, bound, event_size, line, name_size, numbers_in, parts}
use Rattle.text.specs.Names.{name}
use Rattle.text.specs.Numbers.{digits, number}
use Rattle.text.specs.Output.{Put, printed}
use Rattle.text.specs.ReadBack.{IsName, read_name, read_number}
use Rattle.text.specs.declared.Line.{Line}
use Rattle.demands.specs.Json.{Int}

pub record Texts : Type 0 where
  -- digits are an integer of JSON
  pub digits_integer : (n : ℕ) → Int (digits n)
  -- a number's text reads back to the number, bare or quoted, and a name's to the name, or to none
  pub number_back : (n : ℕ) → read_number (number n) ≡ n
  pub name_back : (n : Option (List ℕ)) → IsName n → read_name (name n) ≡ n
  -- so two numbers never print alike, and neither do two names
  pub numbers_differ : (m n : ℕ) → number m ≡ number n → m ≡ n
  pub names_differ : (m n : Option (List ℕ)) → IsName m → IsName n → name m ≡ name n → m ≡ n
  -- no text is empty
  pub number_some : (n : ℕ) → 1 ≤ length (number n)
  pub name_some : (n : Option (List ℕ)) → 1 ≤ length (name n)
  pub line_some : (l : Line) (event : Option (Option (List ℕ))) (n : Option (List ℕ)) → 1 ≤ length (line l event n)
  -- no line is longer than its bound, where its numbers fit 64 bits, and that is at most what the printers take for plenty of room
  pub line_bound : (l : Line) (event : Option (Option (List ℕ))) (n : Option (List ℕ)) → Fit64 (numbers_in (parts l event n)) → length (line l event n) ≤ bound (parts l event n)
  pub bound_most : (l : Line) (event : Option (Option (List ℕ))) (n : Option (List ℕ)) → bound (parts l event n) ≤ 6 * (event_size event + name_size n + 65)
  -- as no text is empty, an answer of 0 says that there was no room, and without room nothing is written
  pub zero_said : (text old new : List ℕ) → 1 ≤ length text → Put (printed text old) old new 0 → length old < length text
  pub no_room : (text old new : List ℕ) (answer : ℕ) → Put (printed text old) old new answer → length old < length text → (answer ≡ 0) × (new ≡ old)
  pub room : (text old new : List ℕ) (answer : ℕ) → Put (printed text old) old new answer → length text ≤ length old
      → (answer ≡ length text) × (new ≡ text ++ drop (length text) old)
