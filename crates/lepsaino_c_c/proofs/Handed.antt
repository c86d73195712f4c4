-- Each export has the contract of the call that it hands on to: what `interface` and its kin say of that call, they say of the export.
use Rattle.std.proofs.Common.{◌≡◌, rules}
use Rattle.lepsaino_c_c.proofs as exports
use Rattle.lepsaino_c_c.specs.contracts as exports-contracts
use Rattle.lepsaino_c.proofs as calls
use Rattle.lepsaino_c.specs.contracts as calls-contracts

pub record SameSignatures : Type 2 where
  pub lepsaino_check : exports-contracts.lepsaino_check.ended ≡ calls-contracts.lepsaino_check.ended
  pub lepsaino_begin : exports-contracts.lepsaino_begin.ended ≡ calls-contracts.lepsaino_begin.ended
  pub lepsaino_feed : exports-contracts.lepsaino_feed.ended ≡ calls-contracts.lepsaino_feed.ended
  pub lepsaino_finish : exports-contracts.lepsaino_finish.ended ≡ calls-contracts.lepsaino_finish.ended
  pub lepsaino_event : exports-contracts.lepsaino_event.ended ≡ calls-contracts.lepsaino_event.ended
  pub lepsaino_event_with_names : exports-contracts.lepsaino_event_with_names.ended ≡ calls-contracts.lepsaino_event_with_names.ended
  pub lepsaino_find_name : exports-contracts.lepsaino_find_name.ended ≡ calls-contracts.lepsaino_find_name.ended
  pub lepsaino_find_name_with_names : exports-contracts.lepsaino_find_name_with_names.ended ≡ calls-contracts.lepsaino_find_name_with_names.ended
  pub lepsaino_line : exports-contracts.lepsaino_line.ended ≡ calls-contracts.lepsaino_line.ended
  pub lepsaino_line_with_names : exports-contracts.lepsaino_line_with_names.ended ≡ calls-contracts.lepsaino_line_with_names.ended
  pub lepsaino_listing : exports-contracts.lepsaino_listing.ended ≡ calls-contracts.lepsaino_listing.ended
  pub lepsaino_listing_with_names : exports-contracts.lepsaino_listing_with_names.ended ≡ calls-contracts.lepsaino_listing_with_names.ended
  pub lepsaino_number : exports-contracts.lepsaino_number.ended ≡ calls-contracts.lepsaino_number.ended
  pub lepsaino_format : exports-contracts.lepsaino_format.ended ≡ calls-contracts.lepsaino_format.ended
  pub lepsaino_record : exports-contracts.lepsaino_record.ended ≡ calls-contracts.lepsaino_record.ended
  pub lepsaino_register : exports-contracts.lepsaino_register.ended ≡ calls-contracts.lepsaino_register.ended
  pub lepsaino_remove : exports-contracts.lepsaino_remove.ended ≡ calls-contracts.lepsaino_remove.ended
  pub lepsaino_write_name : exports-contracts.lepsaino_write_name.ended ≡ calls-contracts.lepsaino_write_name.ended
  pub lepsaino_mend : exports-contracts.lepsaino_mend.ended ≡ calls-contracts.lepsaino_mend.ended

pub record SameAsked : Type 1 where
  pub lepsaino_check : exports.lepsaino_check.Reads.Asked ≡ calls.lepsaino_check.Reads.Asked
  pub lepsaino_begin : exports.lepsaino_begin.Reads.Asked ≡ calls.lepsaino_begin.Reads.Asked
  pub lepsaino_feed : exports.lepsaino_feed.Reads.Asked ≡ calls.lepsaino_feed.Reads.Asked
  pub lepsaino_finish : exports.lepsaino_finish.Reads.Asked ≡ calls.lepsaino_finish.Reads.Asked
  pub lepsaino_event : exports.lepsaino_event.Reads.Asked ≡ calls.lepsaino_event.Reads.Asked
  pub lepsaino_event_with_names : exports.lepsaino_event_with_names.Reads.Asked ≡ calls.lepsaino_event_with_names.Reads.Asked
  pub lepsaino_find_name : exports.lepsaino_find_name.Reads.Asked ≡ calls.lepsaino_find_name.Reads.Asked
  pub lepsaino_find_name_with_names : exports.lepsaino_find_name_with_names.Reads.Asked ≡ calls.lepsaino_find_name_with_names.Reads.Asked
  pub lepsaino_line : exports.lepsaino_line.Reads.Asked ≡ calls.lepsaino_line.Reads.Asked
  pub lepsaino_line_with_names : exports.lepsaino_line_with_names.Reads.Asked ≡ calls.lepsaino_line_with_names.Reads.Asked
  pub lepsaino_listing : exports.lepsaino_listing.Reads.Asked ≡ calls.lepsaino_listing.Reads.Asked
  pub lepsaino_listing_with_names : exports.lepsaino_listing_with_names.Reads.Asked ≡ calls.lepsaino_listing_with_names.Reads.Asked
  pub lepsaino_number : exports.lepsaino_number.Reads.Asked ≡ calls.lepsaino_number.Reads.Asked
  pub lepsaino_format : exports.lepsaino_format.Reads.Asked ≡ calls.lepsaino_format.Reads.Asked
  pub lepsaino_record : exports.lepsaino_record.Reads.Asked ≡ calls.lepsaino_record.Reads.Asked
  pub lepsaino_register : exports.lepsaino_register.Reads.Asked ≡ calls.lepsaino_register.Reads.Asked
  pub lepsaino_remove : exports.lepsaino_remove.Reads.Asked ≡ calls.lepsaino_remove.Reads.Asked
  pub lepsaino_write_name : exports.lepsaino_write_name.Reads.Asked ≡ calls.lepsaino_write_name.Reads.Asked
  pub lepsaino_mend : exports.lepsaino_mend.Reads.Asked ≡ calls.lepsaino_mend.Reads.Asked

pub record SameLearnt : Type 1 where
  pub lepsaino_check : exports.lepsaino_check.Reads.Learnt ≡ calls.lepsaino_check.Reads.Learnt
  pub lepsaino_begin : exports.lepsaino_begin.Reads.Learnt ≡ calls.lepsaino_begin.Reads.Learnt
  pub lepsaino_feed : exports.lepsaino_feed.Reads.Learnt ≡ calls.lepsaino_feed.Reads.Learnt
  pub lepsaino_finish : exports.lepsaino_finish.Reads.Learnt ≡ calls.lepsaino_finish.Reads.Learnt
  pub lepsaino_event : exports.lepsaino_event.Reads.Learnt ≡ calls.lepsaino_event.Reads.Learnt
  pub lepsaino_event_with_names : exports.lepsaino_event_with_names.Reads.Learnt ≡ calls.lepsaino_event_with_names.Reads.Learnt
  pub lepsaino_find_name : exports.lepsaino_find_name.Reads.Learnt ≡ calls.lepsaino_find_name.Reads.Learnt
  pub lepsaino_find_name_with_names : exports.lepsaino_find_name_with_names.Reads.Learnt ≡ calls.lepsaino_find_name_with_names.Reads.Learnt
  pub lepsaino_line : exports.lepsaino_line.Reads.Learnt ≡ calls.lepsaino_line.Reads.Learnt
  pub lepsaino_line_with_names : exports.lepsaino_line_with_names.Reads.Learnt ≡ calls.lepsaino_line_with_names.Reads.Learnt
  pub lepsaino_listing : exports.lepsaino_listing.Reads.Learnt ≡ calls.lepsaino_listing.Reads.Learnt
  pub lepsaino_listing_with_names : exports.lepsaino_listing_with_names.Reads.Learnt ≡ calls.lepsaino_listing_with_names.Reads.Learnt
  pub lepsaino_number : exports.lepsaino_number.Reads.Learnt ≡ calls.lepsaino_number.Reads.Learnt
  pub lepsaino_format : exports.lepsaino_format.Reads.Learnt ≡ calls.lepsaino_format.Reads.Learnt
  pub lepsaino_record : exports.lepsaino_record.Reads.Learnt ≡ calls.lepsaino_record.Reads.Learnt
  pub lepsaino_register : exports.lepsaino_register.Reads.Learnt ≡ calls.lepsaino_register.Reads.Learnt
  pub lepsaino_remove : exports.lepsaino_remove.Reads.Learnt ≡ calls.lepsaino_remove.Reads.Learnt
  pub lepsaino_write_name : exports.lepsaino_write_name.Reads.Learnt ≡ calls.lepsaino_write_name.Reads.Learnt
  pub lepsaino_mend : exports.lepsaino_mend.Reads.Learnt ≡ calls.lepsaino_mend.Reads.Learnt

pub same_signatures : SameSignatures
same_signatures = search rules

pub same_asked : SameAsked
same_asked = search rules

pub same_learnt : SameLearnt
same_learnt = search rules
