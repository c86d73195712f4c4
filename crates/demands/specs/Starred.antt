-- The starred cases of document 01, in one table, and both sides of the limit of document 02, A3.
use Rattle.std.specs.Prelude.{ℕ, false, List, [], ◌∷◌, ◌++◌, ◌≡◌, length, replicate, Err, Ok, Result}
use Rattle.rows.specs.declared.Refusal.{Refusal}
use Rattle.text.specs.Ascii.{ascii}
use Rattle.text.specs.Names.{escaped}
use Rattle.text.specs.Numbers.{number}
use Rattle.trace.specs.Check.{check_of, sound_dump}
use Rattle.trace.specs.Keys.{key}
use Rattle.trace.specs.Layout.{trace_id, buffer_end}
use Rattle.trace.specs.Table.{row4, row5}
use Rattle.trace.specs.Times.{gap, microseconds}
use Rattle.trace.specs.declared.Header.{Header}
use Rattle.trace.specs.declared.Sound.{Sound}
use Rattle.words.specs.declared.Order.{Order}
use Rattle.writing.specs.Bytes.{free_entries, header_bytes}
use Rattle.writing.specs.Writing.{formatting, said}
use Rattle.writing.specs.declared.Format.{Format}

-- the header of a buffer that ends at the top of memory: base 0xFFFFFF00, name size 4, four entries, four slots
unfoldable pub top_header : Order → ℕ → Header
top_header o mask = record {
  order = o;
  id = trace_id;
  mask = mask;
  base = 0xFFFFFF00;
  registry_start = 0xFFFFFF30;
  name_size = 4;
  registry_end = 0xFFFFFF80;
  buffer_start = 0xFFFFFF80;
  buffer_end = 0;
  current = 0xFFFFFF80;
}

-- the dump: four free entries and four unused slots
unfoldable pub top_dump : Order → ℕ → List ℕ
top_dump o mask = header_bytes (top_header o mask) ++ free_entries 4 20 ++ replicate 128 0

abbrev pub refused : ℕ → Result Sound Refusal
refused number = Err (record { number = number; place = 0 })

-- formatting with no entries, at any base, with any mask and name size
unfoldable pub no_entries : Order → ℕ → ℕ → ℕ → Format
no_entries o base mask size = record { order = o; base = base; mask = mask; name_size = size; entries = 0 }

-- neither 4 nor 5
abbrev pub Allowed : ℕ → ℕ → Type 0
Allowed mask size = ((row4 mask).broken ≡ false) × ((row5 size).broken ≡ false)

-- one row a case, those of dumps for either byte order
pub record Starred (o : Order) : Type 0 where
  pub mask_0x1 : check_of (top_dump o 0x1) ≡ Ok (sound_dump (top_header o 0x1) 0)
  pub mask_0xFFFFFFFF : check_of (top_dump o 0xFFFFFFFF) ≡ Ok (sound_dump (top_header o 0xFFFFFFFF) 0)
  pub mask_0 : check_of (top_dump o 0) ≡ refused 4
  pub mask_0x5 : check_of (top_dump o 0x5) ≡ refused 4
  pub mask_0xFF00 : check_of (top_dump o 0xFF00) ≡ refused 4
  pub end_pointer_0 : check_of (top_dump o 0xFFFF) ≡ Ok (sound_dump (top_header o 0xFFFF) 0)
  pub end_offset_256 : buffer_end (top_header o 0xFFFF) ≡ 256
  pub eighty_bytes_one_slot : (base mask size : ℕ) (s : List ℕ) → Allowed mask size → length s ≡ 80 → said (formatting (no_entries o base mask size) s) ≡ Ok 1
  pub seventy_nine_bytes_24 : (base mask size : ℕ) (s : List ℕ) → Allowed mask size → length s ≡ 79
      → said (formatting (no_entries o base mask size) s) ≡ Err (record { number = 24; place = 0 })
  pub gap_65500_20 : gap 0xFFFF 65500 20 ≡ 56
  pub gap_equal : (mask stamp : ℕ) → gap mask stamp stamp ≡ 0
  pub bare_at_9007199254_ticks : number (microseconds 9007199254 1) ≡ ascii "9007199254000000"
  pub quoted_at_9007199255_ticks : number (microseconds 9007199255 1) ≡ ascii "\"9007199255000000\""
  pub bare_at_key_9007199254740991 : number (key 8191 1099511627775 0) ≡ ascii "9007199254740991"
  pub quoted_at_key_9007199254740992 : number (key 8192 0 0) ≡ ascii "\"9007199254740992\""
  pub bare_at_9007199254740991_microseconds : number (microseconds 9007199254740991 1000000) ≡ ascii "9007199254740991"
  pub quoted_at_9007199254740992_microseconds : number (microseconds 9007199254740992 1000000) ≡ ascii "\"9007199254740992\""
  pub name_41_22_0A : escaped (0x41 ∷ 0x22 ∷ 0x0A ∷ []) ≡ ascii "A\\\"\\u000a"
