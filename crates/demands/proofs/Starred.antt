-- The starred cases hold: each computes.
use Rattle.std.specs.Prelude.{Err, Ok}
use Prim.Native.Nat.{ℕ}
use mathlib.Core.List.{List}
use mathlib.Core.Path.{◌≡◌, refl}
use native.Mathlib.Nat.{zero-mul}
use lib.ListN.{length}
use Rattle.rows.specs.Rows.{first_broken}
use Rattle.text.specs.Names.{escape, escaped, hex_digit, is_marked, is_plain}
use Rattle.text.specs.Numbers.{digits, digits_in, is_bare, number, quoted}
use Rattle.trace.specs.Keys.{key}
use Rattle.trace.specs.Layout.{slot_size}
use Rattle.trace.specs.Table.{row2}
use Rattle.trace.specs.Times.{gap, microseconds}
use Rattle.words.proofs.Circles.{minus_same}
use Rattle.words.specs.Masks.{width}
use Rattle.words.specs.declared.Order.{Order}
use Rattle.words.specs.declared.Order.TheVariants.{Big, Little}
use Rattle.writing.proofs.Opened.{open_writing}
use Rattle.writing.specs.Table.{row24}
use Rattle.writing.specs.Writing.{formatting, fresh_header, said}
use Rattle.demands.specs.Starred.{Allowed, Starred, no_entries, top_dump, top_header}

-- with no entries the registry has no bytes, whatever the name size
eighty : (o : Order) (base mask size : ℕ) (s : List ℕ) → Allowed mask size → length s ≡ 80 → said (formatting (no_entries o base mask size) s) ≡ Ok 1
unfolding first_broken slot_size row2 row24 formatting fresh_header no_entries
eighty o base mask size s allowed e = rw (e, allowed.0, allowed.1, zero-mul) refl

seventy_nine : (o : Order) (base mask size : ℕ) (s : List ℕ) → Allowed mask size → length s ≡ 79
    → said (formatting (no_entries o base mask size) s) ≡ Err (record { number = 24; place = 0 })
unfolding first_broken slot_size row2 row24 formatting fresh_header no_entries
seventy_nine o base mask size s allowed e = rw (e, allowed.0, allowed.1, zero-mul) refl

pub starred : (o : Order) → Starred o
unfolding open_writing top_header top_dump no_entries gap microseconds escape escaped hex_digit is_marked is_plain digits digits_in is_bare number quoted key
starred Big = record { mask_0x1 = refl; mask_0xFFFFFFFF = refl; mask_0 = refl; mask_0x5 = refl; mask_0xFF00 = refl; end_pointer_0 = refl; end_offset_256 = refl; eighty_bytes_one_slot = eighty Big; seventy_nine_bytes_24 = seventy_nine Big; gap_65500_20 = refl; gap_equal = λ mask stamp. minus_same (width mask) stamp; bare_at_9007199254_ticks = refl; quoted_at_9007199255_ticks = refl; bare_at_key_9007199254740991 = refl; quoted_at_key_9007199254740992 = refl; bare_at_9007199254740991_microseconds = refl; quoted_at_9007199254740992_microseconds = refl; name_41_22_0A = refl }
starred Little = record { mask_0x1 = refl; mask_0xFFFFFFFF = refl; mask_0 = refl; mask_0x5 = refl; mask_0xFF00 = refl; end_pointer_0 = refl; end_offset_256 = refl; eighty_bytes_one_slot = eighty Little; seventy_nine_bytes_24 = seventy_nine Little; gap_65500_20 = refl; gap_equal = λ mask stamp. minus_same (width mask) stamp; bare_at_9007199254_ticks = refl; quoted_at_9007199255_ticks = refl; bare_at_key_9007199254740991 = refl; quoted_at_key_9007199254740992 = refl; bare_at_9007199254740991_microseconds = refl; quoted_at_9007199254740992_microseconds = refl; name_41_22_0A = refl }
