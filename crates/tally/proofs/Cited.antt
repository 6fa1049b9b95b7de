-- The functions whose contracts `Run` and `LentRun` read are proved (`_proved`: their theorems, by name), and what these read of a
-- contract is what a caller knows by it (`_read`). `lent_` stands before the functions of crates/loonstool on the lent meter.
use borrow.Fn.Picked.{KnownAs}
use Rattle.meter.proofs.Meter.new as fresh
use Rattle.meter.proofs.Meter.analysis as analysis
use Rattle.meter.proofs.Meter.metering as metering
use Rattle.meter.proofs.Meter.day as day
use Rattle.meter.proofs.Meter.totals as totals
use Rattle.meter.proofs.Meter.mean as mean
use Rattle.loonstool.proofs.loonstool_meter_fresh as lent-fresh
use Rattle.loonstool.proofs.loonstool_meter_check as lent-check
use Rattle.loonstool.proofs.loonstool_meter_analysis as lent-analysis
use Rattle.loonstool.proofs.loonstool_meter_metering as lent-metering
use Rattle.loonstool.proofs.loonstool_meter_day as lent-day
use Rattle.loonstool.proofs.loonstool_meter_totals as lent-totals
use Rattle.loonstool.proofs.loonstool_meter_mean as lent-mean
use Rattle.loonstool.proofs.loonstool_meter_mean_inferior as lent-mean-inferior

pub fresh_proved : {M : Type 1} → fresh.Statement.statement M
fresh_proved = fresh.Met.met

pub fresh_read : KnownAs 0 fresh.Kinds.ps fresh.Kinds.r fresh.Reads.Ghost fresh.Reads.requires fresh.Reads.ensures fresh.Reads.Asked fresh.Reads.Learnt
fresh_read = fresh.Reads.known

pub analysis_proved : {M : Type 1} → analysis.Statement.statement M
analysis_proved = analysis.Met.met

pub analysis_read : KnownAs 2 analysis.Kinds.ps analysis.Kinds.r analysis.Reads.Ghost analysis.Reads.requires analysis.Reads.ensures analysis.Reads.Asked analysis.Reads.Learnt
analysis_read = analysis.Reads.known

pub metering_proved : {M : Type 1} → metering.Statement.statement M
metering_proved = metering.Met.met

pub metering_read : KnownAs 1 metering.Kinds.ps metering.Kinds.r metering.Reads.Ghost metering.Reads.requires metering.Reads.ensures metering.Reads.Asked metering.Reads.Learnt
metering_read = metering.Reads.known

pub day_proved : {M : Type 1} → day.Statement.statement M
day_proved = day.Met.met

pub day_read : KnownAs 3 day.Kinds.ps day.Kinds.r day.Reads.Ghost day.Reads.requires day.Reads.ensures day.Reads.Asked day.Reads.Learnt
day_read = day.Reads.known

pub totals_proved : {M : Type 1} → totals.Statement.statement M
totals_proved = totals.Met.met

pub totals_read : KnownAs 1 totals.Kinds.ps totals.Kinds.r totals.Reads.Ghost totals.Reads.requires totals.Reads.ensures totals.Reads.Asked totals.Reads.Learnt
totals_read = totals.Reads.known

pub mean_proved : {M : Type 1} → mean.Statement.statement M
mean_proved = mean.Met.met

pub mean_read : KnownAs 1 mean.Kinds.ps mean.Kinds.r mean.Reads.Ghost mean.Reads.requires mean.Reads.ensures mean.Reads.Asked mean.Reads.Learnt
mean_read = mean.Reads.known

pub lent_fresh_proved : {M : Type 1} → lent-fresh.Statement.statement M
lent_fresh_proved = lent-fresh.Met.met

pub lent_fresh_read : KnownAs 1 lent-fresh.Kinds.ps lent-fresh.Kinds.r lent-fresh.Reads.Ghost lent-fresh.Reads.requires lent-fresh.Reads.ensures lent-fresh.Reads.Asked lent-fresh.Reads.Learnt
lent_fresh_read = lent-fresh.Reads.known

pub lent_check_proved : {M : Type 1} → lent-check.Statement.statement M
lent_check_proved = lent-check.Met.met

pub lent_check_read : KnownAs 1 lent-check.Kinds.ps lent-check.Kinds.r lent-check.Reads.Ghost lent-check.Reads.requires lent-check.Reads.ensures lent-check.Reads.Asked lent-check.Reads.Learnt
lent_check_read = lent-check.Reads.known

pub lent_analysis_proved : {M : Type 1} → lent-analysis.Statement.statement M
lent_analysis_proved = lent-analysis.Met.met

pub lent_analysis_read : KnownAs 2 lent-analysis.Kinds.ps lent-analysis.Kinds.r lent-analysis.Reads.Ghost lent-analysis.Reads.requires lent-analysis.Reads.ensures lent-analysis.Reads.Asked lent-analysis.Reads.Learnt
lent_analysis_read = lent-analysis.Reads.known

pub lent_metering_proved : {M : Type 1} → lent-metering.Statement.statement M
lent_metering_proved = lent-metering.Met.met

pub lent_metering_read : KnownAs 1 lent-metering.Kinds.ps lent-metering.Kinds.r lent-metering.Reads.Ghost lent-metering.Reads.requires lent-metering.Reads.ensures lent-metering.Reads.Asked lent-metering.Reads.Learnt
lent_metering_read = lent-metering.Reads.known

pub lent_day_proved : {M : Type 1} → lent-day.Statement.statement M
lent_day_proved = lent-day.Met.met

pub lent_day_read : KnownAs 4 lent-day.Kinds.ps lent-day.Kinds.r lent-day.Reads.Ghost lent-day.Reads.requires lent-day.Reads.ensures lent-day.Reads.Asked lent-day.Reads.Learnt
lent_day_read = lent-day.Reads.known

pub lent_totals_proved : {M : Type 1} → lent-totals.Statement.statement M
lent_totals_proved = lent-totals.Met.met

pub lent_totals_read : KnownAs 2 lent-totals.Kinds.ps lent-totals.Kinds.r lent-totals.Reads.Ghost lent-totals.Reads.requires lent-totals.Reads.ensures lent-totals.Reads.Asked lent-totals.Reads.Learnt
lent_totals_read = lent-totals.Reads.known

pub lent_mean_proved : {M : Type 1} → lent-mean.Statement.statement M
lent_mean_proved = lent-mean.Met.met

pub lent_mean_read : KnownAs 2 lent-mean.Kinds.ps lent-mean.Kinds.r lent-mean.Reads.Ghost lent-mean.Reads.requires lent-mean.Reads.ensures lent-mean.Reads.Asked lent-mean.Reads.Learnt
lent_mean_read = lent-mean.Reads.known

pub lent_mean_inferior_proved : {M : Type 1} → lent-mean-inferior.Statement.statement M
lent_mean_inferior_proved = lent-mean-inferior.Met.met

pub lent_mean_inferior_read : KnownAs 2 lent-mean-inferior.Kinds.ps lent-mean-inferior.Kinds.r lent-mean-inferior.Reads.Ghost lent-mean-inferior.Reads.requires lent-mean-inferior.Reads.ensures lent-mean-inferior.Reads.Asked lent-mean-inferior.Reads.Learnt
lent_mean_inferior_read = lent-mean-inferior.Reads.known
