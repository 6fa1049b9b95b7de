-- The exports of the meter are proved (`_proved`: their theorems, by name), and what a caller asks and learns by their contracts is what
-- the runs on lent words of crates/tally read of the functions of crates/loonstool (`_read`).
use borrow.Fn.Picked.{KnownAs}
use Rattle.loonstool.proofs.loonstool_meter_fresh.Reads as read_fresh
use Rattle.loonstool.proofs.loonstool_meter_check.Reads as read_check
use Rattle.loonstool.proofs.loonstool_meter_analysis.Reads as read_analysis
use Rattle.loonstool.proofs.loonstool_meter_metering.Reads as read_metering
use Rattle.loonstool.proofs.loonstool_meter_day.Reads as read_day
use Rattle.loonstool.proofs.loonstool_meter_totals.Reads as read_totals
use Rattle.loonstool.proofs.loonstool_meter_mean.Reads as read_mean
use Rattle.loonstool.proofs.loonstool_meter_mean_inferior.Reads as read_mean_inferior
use Rattle.loonstool_c.proofs.loonstool_meter_fresh as export_fresh
use Rattle.loonstool_c.proofs.loonstool_meter_check as export_check
use Rattle.loonstool_c.proofs.loonstool_meter_analysis as export_analysis
use Rattle.loonstool_c.proofs.loonstool_meter_metering as export_metering
use Rattle.loonstool_c.proofs.loonstool_meter_day as export_day
use Rattle.loonstool_c.proofs.loonstool_meter_totals as export_totals
use Rattle.loonstool_c.proofs.loonstool_meter_mean as export_mean
use Rattle.loonstool_c.proofs.loonstool_meter_mean_inferior as export_mean_inferior

pub fresh_proved : {M : Type 1} → export_fresh.Statement.statement M
fresh_proved = export_fresh.Met.met

pub fresh_read : KnownAs 1 export_fresh.Kinds.ps export_fresh.Kinds.r export_fresh.Reads.Ghost export_fresh.Reads.requires export_fresh.Reads.ensures read_fresh.Asked read_fresh.Learnt
fresh_read = export_fresh.Reads.known

pub check_proved : {M : Type 1} → export_check.Statement.statement M
check_proved = export_check.Met.met

pub check_read : KnownAs 1 export_check.Kinds.ps export_check.Kinds.r export_check.Reads.Ghost export_check.Reads.requires export_check.Reads.ensures read_check.Asked read_check.Learnt
check_read = export_check.Reads.known

pub analysis_proved : {M : Type 1} → export_analysis.Statement.statement M
analysis_proved = export_analysis.Met.met

pub analysis_read : KnownAs 2 export_analysis.Kinds.ps export_analysis.Kinds.r export_analysis.Reads.Ghost export_analysis.Reads.requires export_analysis.Reads.ensures read_analysis.Asked read_analysis.Learnt
analysis_read = export_analysis.Reads.known

pub metering_proved : {M : Type 1} → export_metering.Statement.statement M
metering_proved = export_metering.Met.met

pub metering_read : KnownAs 1 export_metering.Kinds.ps export_metering.Kinds.r export_metering.Reads.Ghost export_metering.Reads.requires export_metering.Reads.ensures read_metering.Asked read_metering.Learnt
metering_read = export_metering.Reads.known

pub day_proved : {M : Type 1} → export_day.Statement.statement M
day_proved = export_day.Met.met

pub day_read : KnownAs 4 export_day.Kinds.ps export_day.Kinds.r export_day.Reads.Ghost export_day.Reads.requires export_day.Reads.ensures read_day.Asked read_day.Learnt
day_read = export_day.Reads.known

pub totals_proved : {M : Type 1} → export_totals.Statement.statement M
totals_proved = export_totals.Met.met

pub totals_read : KnownAs 2 export_totals.Kinds.ps export_totals.Kinds.r export_totals.Reads.Ghost export_totals.Reads.requires export_totals.Reads.ensures read_totals.Asked read_totals.Learnt
totals_read = export_totals.Reads.known

pub mean_proved : {M : Type 1} → export_mean.Statement.statement M
mean_proved = export_mean.Met.met

pub mean_read : KnownAs 2 export_mean.Kinds.ps export_mean.Kinds.r export_mean.Reads.Ghost export_mean.Reads.requires export_mean.Reads.ensures read_mean.Asked read_mean.Learnt
mean_read = export_mean.Reads.known

pub mean_inferior_proved : {M : Type 1} → export_mean_inferior.Statement.statement M
mean_inferior_proved = export_mean_inferior.Met.met

pub mean_inferior_read : KnownAs 2 export_mean_inferior.Kinds.ps export_mean_inferior.Kinds.r export_mean_inferior.Reads.Ghost export_mean_inferior.Reads.requires export_mean_inferior.Reads.ensures read_mean_inferior.Asked read_mean_inferior.Learnt
mean_inferior_read = export_mean_inferior.Reads.known
