use Rattle.std.proofs.Common.{◌≡◌, rules, ℕ}
use Rattle.std.specs.Prelude.{leb}
use Rattle.std.specs.List.{list_all, range_with_len}
use Rattle.std.proofs.iter.runs.Sources.{ranges}
use Rattle.share.specs.Share.{stages, most_total}
use Rattle.share.specs.Sides.{total_at}
use Rattle.share.proofs.totals_fit.Goals as goal

pub returns : goal.returns
unfolding stages
returns c =
    let h : c.all.result ≡ list_all (λ (s : ℕ). leb (total_at c.args.totals s) most_total) (range_with_len 0 4) = search (rules, ranges) in
    h
