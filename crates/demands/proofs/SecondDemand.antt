-- The second demand: what a listing writes, and the parts proved elsewhere.
use Rattle.demands.specs.Demands.{SecondDemand}
use Rattle.demands.proofs.Answers.{wrote, wrote_front}
use Rattle.demands.proofs.BareNumbers.{bare_numbers}
use Rattle.demands.proofs.Gives.{gives}
use Rattle.demands.proofs.JsonLines.{json_lines}
use Rattle.demands.proofs.JsonNumbers.{line_numbers, listing_numbers}
use Rattle.demands.proofs.Keys.{keys}
use Rattle.demands.proofs.Layouts.{layouts}
use Rattle.demands.proofs.Masks.{masks}
use Rattle.demands.proofs.NameFiles.{name_files}
use Rattle.demands.proofs.Names.{names}
use Rattle.demands.proofs.NotRead.{appended, not_read}
use Rattle.demands.proofs.OneLine.{empty_ring, one_line}
use Rattle.demands.proofs.OrderAndTime.{order_and_time}
use Rattle.demands.proofs.Patterns.{patterns}
use Rattle.demands.proofs.Offsets.{offsets}
use Rattle.demands.proofs.Texts.{texts}
use Rattle.demands.proofs.Turns.{turns}
use Rattle.demands.proofs.Writings.{filing_leaves, formatting_makes, recording_leaves, registering_leaves, removing_leaves, reusing_leaves}

pub second_demand : SecondDemand
second_demand = record {
  one_description = layouts;
  patterns = patterns;
  masks = masks;
  offsets = offsets;
  turns = turns;
  order_and_time = order_and_time;
  names = names;
  name_files = name_files;
  not_read = not_read;
  appended = appended;
  formats = formatting_makes;
  records = recording_leaves;
  registers = registering_leaves;
  removes = removing_leaves;
  reuses = reusing_leaves;
  files = filing_leaves;
  gives = gives;
  listing = λ file s r old new n. wrote _ _ old new n;
  line = λ file s r position old new n. wrote _ _ old new n;
  one_line = one_line;
  empty_ring = empty_ring;
  json = json_lines;
  texts = texts;
  numbers = λ file s r old new n gave. rw (wrote_front _ _ old new n gave) (listing_numbers file s _ r);
  line_numbers = λ file s r position old new n gave. rw (wrote_front _ _ old new n gave) (line_numbers file s _ r position);
  bare_numbers = bare_numbers;
  keys = keys;
}
