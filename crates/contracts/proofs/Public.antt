-- A contract that gives the result, and what is left of a lent buffer, as values of the arguments settles its answer.
use Prim.Native.Nat.{ℕ}
use mathlib.Core.List.{List}
use mathlib.Core.Path.{◌≡◌, refl, sym, ◌∙◌}
use denote.Ref.{Bor}
use denote.Triple.Clauses.{AtExit, Ended, Lasts, at_exit}
use Rattle.trace.specs.Parts.{PartOf}
use Rattle.contracts.specs.Public.{Library, NameOpen, PrintedOnce}
use Rattle.contracts.specs.Settled.{Arguments, Lives, Result, Settled, Telling}

module _ {T : Ended} {value : (κs : Lives T) → Arguments T κs → Result T κs} where
  -- nothing is lent to be written
  module _ (alone : (κs : Lives T) (a : Arguments T κs) (v w : Lasts T κs a) → v ≡ w) where
    gives : {learnt : Telling T} → ((κs : Lives T) (a : Arguments T κs) (x : Result T κs) (e : AtExit T κs) → learnt κs a x e → x ≡ value κs a) → Settled T (λ κs a. Unit {0}) learnt
    gives is = record {
      asks_nothing = λ κs a. tt;
      one_answer = λ κs a p q. (is κs a _ _ p.allowed ∙ sym (is κs a _ _ q.allowed), alone κs a p.left q.left);
    }

    pub equation : Settled T (λ κs a. Unit {0}) (λ κs a x e. x ≡ value κs a)
    equation = gives (λ κs a x e p. p)

    -- a bound beside it changes nothing
    bounded : {Bound : Telling T} → Settled T (λ κs a. Unit {0}) (λ κs a x e. (x ≡ value κs a) × Bound κs a x e)
    bounded = gives (λ κs a x e p. p.0)

  -- one buffer is
  pub leaves : {learnt : Telling T} {bytes : (κs : Lives T) → AtExit T κs → List ℕ} {last : (κs : Lives T) → Arguments T κs → List ℕ}
      → ((κs : Lives T) (a : Arguments T κs) (x : Result T κs) (e : AtExit T κs) → learnt κs a x e → (x ≡ value κs a) × (bytes κs e ≡ last κs a))
      → ((κs : Lives T) (a : Arguments T κs) (v w : Lasts T κs a) → bytes κs (at_exit T κs a v) ≡ bytes κs (at_exit T κs a w) → v ≡ w) → Settled T (λ κs a. Unit {0}) learnt
  leaves is alone = record {
    asks_nothing = λ κs a. tt;
    one_answer = λ κs a p q.
        let one = is κs a _ _ p.allowed in
        let two = is κs a _ _ q.allowed in
        (one.0 ∙ sym two.0, alone κs a p.left q.left (one.1 ∙ sym two.1));
  }

one_part : {whole x y : Bor (List ℕ)} {at size : ℕ} → PartOf whole x at size → PartOf whole y at size → x ≡ y
one_part one two i = record { ref_ptr = ((one.block ∙ sym two.block) i, (one.offset ∙ sym two.offset) i); now = (one.bytes ∙ sym two.bytes) i }

pub library : Library
library = record {
  words = record {
    byte = equation (λ κs a v w. refl);
    in_order = equation (λ κs a v w. refl);
    half = equation (λ κs a v w. refl);
    word = equation (λ κs a v w. refl);
    put_byte = leaves {value = λ κs a. tt} (λ κs a x e p. (refl, p)) (λ κs a v w e i. (e i, v.1));
    put_half = leaves {value = λ κs a. tt} (λ κs a x e p. (refl, p)) (λ κs a v w e i. (e i, v.1));
    put_word = leaves {value = λ κs a. tt} (λ κs a x e p. (refl, p)) (λ κs a v w e i. (e i, v.1));
    put_padded = leaves {value = λ κs a. tt} (λ κs a x e p. (refl, p)) (λ κs a v w e i. (e i, v.1));
    offset_from = equation (λ κs a v w. refl);
    pointer_to = equation (λ κs a v w. refl);
    gap = equation (λ κs a v w. refl);
    mask_width = equation (λ κs a v w. refl);
  };
  rows = record {
    row = equation (λ κs a v w. refl);
    either = equation (λ κs a v w. refl);
    both = equation (λ κs a v w. refl);
    above = equation (λ κs a v w. refl);
    least = equation (λ κs a v w. refl);
  };
  header = record {
    header_of = equation (λ κs a v w. refl);
    slot_size = bounded (λ κs a v w. refl);
    geometry_of = equation (λ κs a v w. refl);
    row2 = equation (λ κs a v w. refl);
    row4 = equation (λ κs a v w. refl);
    row5 = equation (λ κs a v w. refl);
    has_bad_current = equation (λ κs a v w. refl);
    layout_verdict = equation (λ κs a v w. refl);
    header_verdict = equation (λ κs a v w. refl);
  };
  dump = record {
    check = equation (λ κs a v w. refl);
    registry_verdict = equation (λ κs a v w. refl);
    is_full = equation (λ κs a v w. refl);
    allowed_type = equation (λ κs a v w. refl);
    is_bad_type = equation (λ κs a v w. refl);
    is_out_of_turn = equation (λ κs a v w. refl);
    is_thread = equation (λ κs a v w. refl);
    kind_at = equation (λ κs a v w. refl);
    lowest_entry = equation (λ κs a v w. refl);
  };
  doubles = record {
    double_of = bounded (λ κs a v w. refl);
    through_double = equation (λ κs a v w. refl);
  };
  output = record {
    put_bytes = leaves (λ κs a x e p. (p.count, p.bytes)) (λ κs a v w e i. (e i, v.1));
    sum = equation (λ κs a v w. refl);
    if_room = equation (λ κs a v w. refl);
  };
  numbers = record {
    pairs = equation (λ κs a v w. refl);
    is_bare = equation (λ κs a v w. refl);
    number_length = bounded (λ κs a v w. refl);
    put_number = leaves (λ κs a x e p. (p.count, p.bytes)) (λ κs a v w e i. (e i, v.1));
    fit_number = leaves (λ κs a x e p. (p.count, p.bytes)) (λ κs a v w e i. (e i, v.1));
    fit = leaves (λ κs a x e p. (p.count, p.bytes)) (λ κs a v w e i. (tt, (e i, tt)));
  };
  names = record {
    name_length = equation (λ κs a v w. refl);
    put_name = leaves (λ κs a x e p. (p.count, p.bytes)) (λ κs a v w e i. (e i, v.1));
    fit_name = leaves (λ κs a x e p. (p.count, p.bytes)) (λ κs a v w e i. (e i, v.1));
    fit = leaves (λ κs a x e p. (p.count, p.bytes)) (λ κs a v w e i. (tt, (e i, tt)));
  };
  lines = record {
    line_length = equation (λ κs a v w. refl);
    put_line = leaves (λ κs a x e p. (p.count, p.bytes)) (λ κs a v w e i. (e i, v.1));
    fit_line = leaves (λ κs a x e p. (p.count, p.bytes)) (λ κs a v w e i. (e i, v.1));
  };
  namer = record {
    file_verdict = equation (λ κs a v w. refl);
    name_in = equation (λ κs a v w. refl);
    name_at = equation (λ κs a v w. refl);
    first_record = equation (λ κs a v w. refl);
    kind_of = equation (λ κs a v w. refl);
  };
  finder = record {
    find_name = equation (λ κs a v w. refl);
    found_part = record { asks_nothing = λ κs a. tt; one_answer = λ κs a p q. (one_part p.allowed q.allowed, refl) };
    name_part = record { asks_nothing = λ κs a. tt; one_answer = λ κs a p q. (one_part p.allowed q.allowed, refl) };
    name_with = equation (λ κs a v w. refl);
    name_of = equation (λ κs a v w. refl);
    entry_name = equation (λ κs a v w. refl);
    name_if_entry = equation (λ κs a v w. refl);
    length_to_zero = equation (λ κs a v w. refl);
  };
  walk = record {
    event = equation (λ κs a v w. refl);
    event_at = equation (λ κs a v w. refl);
    oldest = equation (λ κs a v w. refl);
    next = equation (λ κs a v w. refl);
    slot_at = equation (λ κs a v w. refl);
    sought_by = equation (λ κs a v w. refl);
    event_with = equation (λ κs a v w. refl);
  };
  listing = record {
    line = leaves (λ κs a x e p. (p.answered, p.output)) (λ κs a v w e i. (tt, (tt, (tt, (tt, (e i, tt))))));
    listing = leaves (λ κs a x e p. (p.answered, p.output)) (λ κs a v w e i. (tt, (tt, (tt, (e i, tt)))));
  };
  recorder = record {
    «record» = leaves (λ κs a x e p. p) (λ κs a v w e i. (e i, v.1));
  };
  registrar = record {
    register = leaves (λ κs a x e p. p) (λ κs a v w e i. (e i, v.1));
    remove = leaves (λ κs a x e p. p) (λ κs a v w e i. (e i, v.1));
  };
  formatter = record {
    format = leaves (λ κs a x e p. p) (λ κs a v w e i. (e i, v.1));
  };
  filer = record {
    write_name = leaves (λ κs a x e p. p) (λ κs a v w e i. (e i, v.1));
  };
  mender = record {
    mend = leaves (λ κs a x e p. p) (λ κs a v w e i. (tt, (e i, tt)));
  };
  pieces = record {
    begin = equation (λ κs a v w. refl);
    feed = equation (λ κs a v w. refl);
    finish = equation (λ κs a v w. refl);
  };
  arguments = record {
    number_in = equation (λ κs a v w. refl);
  };
  console = record {
    word_at = equation (λ κs a v w. refl);
    number_at = equation (λ κs a v w. refl);
    count_changed = equation (λ κs a v w. refl);
  };
}

pub printed_once : PrintedOnce
printed_once = record {
  fit = λ text old new other n m p q. (p.count ∙ sym q.count, p.bytes ∙ sym q.bytes);
  put = λ text old new other n m p q. (p.count ∙ sym q.count, p.bytes ∙ sym q.bytes);
}

pub name_open : NameOpen
name_open whole part at size is = (record { bytes = is.bytes; block = is.block; offset = is.offset }, refl)
