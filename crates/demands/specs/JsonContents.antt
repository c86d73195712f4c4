-- What a text of JSON has: an object's members, and the numbers of a value.
use Rattle.std.specs.Prelude.{ℕ, List, [], ◌∷◌, ◌++◌}
use Rattle.demands.specs.Json as json
use Rattle.demands.specs.Json.{Members, Str, Value, Values, json_text}

-- a string's characters as they are written, without the quotation marks
abbrev pub inside : {text : List ℕ} → Str text → List ℕ
inside (json.string_of {inside} all) = inside

-- an object's members, in their order: the name's characters and the value's text
pub record Member : Type 0 where
  pub name : List ℕ
  pub text : List ℕ

abbrev pub members_of : Members → List Member
members_of json.no_member = []
members_of (json.member name v more) = record { name = inside name; text = json_text v } ∷ members_of more

-- the numbers in a value, each as it is written, in their order
unfoldable mutual
  pub numbers_in_value : Value → List (List ℕ)
  numbers_in_value (json.literal l) = []
  numbers_in_value (json.object members) = numbers_in_members members
  numbers_in_value (json.array values) = numbers_in_values values
  numbers_in_value (json.number {text} n) = text ∷ []
  numbers_in_value (json.string s) = []

  pub numbers_in_members : Members → List (List ℕ)
  numbers_in_members json.no_member = []
  numbers_in_members (json.member name v more) = numbers_in_value v ++ numbers_in_members more

  pub numbers_in_values : Values → List (List ℕ)
  numbers_in_values json.no_value = []
  numbers_in_values (json.value v more) = numbers_in_value v ++ numbers_in_values more
