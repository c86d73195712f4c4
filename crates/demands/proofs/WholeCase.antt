-- The whole case holds: its calls make the dump, and the rest computes.
use Rattle.std.specs.Prelude.{None}
use mathlib.Core.Path.{refl}
use lib.ListN.{replicate}
use Rattle.events.specs.Events.{context_of, event_in, name_for}
use Rattle.events.specs.Listing.{fields, line_of, lines_to, title_in}
use Rattle.mending.proofs.Opened.{open_mending}
use Rattle.naming.specs.Finding.{name_with}
use Rattle.naming.specs.Records.{name_in}
use Rattle.text.specs.Lines.{context, event_parts, line, object_text, part_text, parts, value_text}
use Rattle.text.specs.Names.{escape, escaped, hex_digit, is_marked, is_plain, name}
use Rattle.text.specs.Numbers.{digits, digits_in, is_bare, number, quoted}
use Rattle.trace.specs.Keys.{key}
use Rattle.trace.specs.Names.{name_bytes, name_if_entry, name_of, thread_name}
use Rattle.trace.specs.Slots.{slot_in}
use Rattle.trace.specs.Times.{gap, microseconds, ticks_of}
use Rattle.words.specs.declared.Order.{Order}
use Rattle.words.specs.declared.Order.TheVariants.{Big, Little}
use Rattle.demands.specs.JsonNumbers.{numbers_read}
use Rattle.demands.specs.Page.{behind, in_listing, line_in, up_to}
use Rattle.demands.proofs.WholeCalls.{calls_make, calls_typed, none_formats, three_slots, times_rise, writes_accepted}
use Rattle.demands.specs.WholeCase.{WholeCase, middle, middle_gone, middle_line, newest, newest_line, oldest, oldest_gone, oldest_line, pump, reading, three_lines, three_long, whole_bytes, whole_copy, whole_dump, whole_header}

pub whole_case : (o : Order) → WholeCase o
unfolding open_mending numbers_read behind line_in up_to pump middle middle_gone middle_line newest newest_line oldest oldest_gone oldest_line reading three_lines whole_bytes whole_copy whole_dump whole_header context_of event_in name_for name_in name_with fields title_in line_of lines_to context event_parts line object_text part_text parts value_text name escape escaped hex_digit is_marked is_plain digits digits_in is_bare number quoted key name_bytes name_if_entry name_of thread_name slot_in gap microseconds ticks_of
whole_case Big = record { fresh = three_slots Big; typed = calls_typed; none_formats = none_formats; never_back = times_rise; writes = writes_accepted Big; made = calls_make Big; bytes = refl; check = refl; registry_cut = refl; slots_cut = refl; mended = refl; copy = refl; listing = refl; removed = refl; numbers = refl; written = λ p below. in_listing None (whole_dump Big) (replicate three_long 0) three_lines three_long (record { answered = refl; output = refl }) below refl; keys = refl; room = refl; no_room = refl }
whole_case Little = record { fresh = three_slots Little; typed = calls_typed; none_formats = none_formats; never_back = times_rise; writes = writes_accepted Little; made = calls_make Little; bytes = refl; check = refl; registry_cut = refl; slots_cut = refl; mended = refl; copy = refl; listing = refl; removed = refl; numbers = refl; written = λ p below. in_listing None (whole_dump Little) (replicate three_long 0) three_lines three_long (record { answered = refl; output = refl }) below refl; keys = refl; room = refl; no_room = refl }
