-- A row that holds a stream has a sound one.
use Rattle.lent_meter.proofs.Kept.{sound_in}
use Rattle.lent_meter.proofs.words.stream_in.Goals as goal

pub from_parts-requires : goal.from_parts-requires
from_parts-requires c = rw (c.analysis_in.ensures, c.totals_in.ensures) (sound_in c.requires)
