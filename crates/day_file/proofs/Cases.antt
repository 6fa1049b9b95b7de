-- The cases hold, by computation; and the orders try the numbers of document 02.
use mathlib.Core.Path.{refl}
use Rattle.records.specs.Cases.{same_list, same_outcome}
use Rattle.day_file.specs.Format.{split}
use Rattle.day_file.specs.Walk.{WalkNumbers, FileNumbers}
use Rattle.day_file.specs.Cases.{same_blocks, WalksHold, FilesHold}

pub walk_numbers : WalkNumbers
walk_numbers file at = refl

pub file_numbers : FileNumbers
file_numbers file = refl

pub walks_hold : WalksHold
unfolding split same_list same_outcome
walks_hold = refl

pub files_hold : FilesHold
unfolding split same_list same_outcome same_blocks
files_hold = refl
