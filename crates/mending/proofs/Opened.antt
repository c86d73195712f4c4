-- Definitions that a proof opens together by one name: all that mending checks and writes.
use Rattle.trace.specs.Ring.{from_current, keep, numbers_from, oldest_first}
use Rattle.writing.proofs.Opened.{open_writing}
use Rattle.mending.specs.Mending.{copy_of, mend_of, repairs_of}
use Rattle.mending.specs.Steps.{each_changed, in_turn, moved_of, packed, parts_of, without_bad_current, without_bad_types, without_missing, without_no_ids}

unfoldable pub open_mending : Unit {0}
unfolding open_writing numbers_from keep from_current oldest_first each_changed without_missing without_bad_current without_bad_types without_no_ids parts_of packed in_turn moved_of copy_of repairs_of mend_of
open_mending = tt
