-- A direction in bytes: the machine, then the clusters, then the lists. Whatever is refused is absent, since each part is prefix free.
use Prim.Native.Nat.{ℕ, ◌<◌, ◌^◌}
use mathlib.Core.Path.{◌≡◌, sym, ap, ◌∙◌}
use mathlib.Core.List.{List, ◌++◌}
use Rattle.std.specs.Prelude.{Option, Some, None}
use lib.ListN.{drop}
use Rattle.encoding.specs.Codes.{Found, Absent}
use Rattle.encoding.proofs.ReadLaws.{first_absent, second-absent, both_found}
use Rattle.sheet_sections.specs.Section.{Parses}
use Rattle.meaning.specs.Meaning.{Side}
use Rattle.meaning.specs.Limits.{OkMaybe, OkSide}
use Rattle.meaning.specs.Sheet.{write_side, machine_bytes, cluster_bytes, list_bytes}
use Rattle.meaning.proofs.SheetLaws.{machine-free, clusters-free, side-parts}
use Rattle.sheet_items.specs.declared.Sort.TheVariants.{Clusters, Lists}
use Rattle.sheet_items.specs.Items.{OkPool}
use Rattle.sheet_check.specs.Whole.{values_bytes, OkValues}

module _ (n : ℕ) (hn : n < 2 ^ 16) (s : List ℕ) (at : ℕ) where
  pub values-none : Absent cluster_bytes (OkPool Clusters n) s at → Absent values_bytes (OkValues n) s at
  values-none = first_absent cluster_bytes (OkPool Clusters n) (clusters-free n hn) (λ c l. list_bytes l) (λ c l. OkPool Lists n l) s at

  pub values-parse : (q : ℕ) → Found cluster_bytes (OkPool Clusters n) s at q → (r : Option ℕ) → Parses list_bytes (OkPool Lists n) s q r
      → Parses values_bytes (OkValues n) s at r
  values-parse q f (Some t) h =
      both_found cluster_bytes (OkPool Clusters n) (clusters-free n hn) (λ c l. list_bytes l) (λ c l. OkPool Lists n l) s at q f t h
  values-parse q f None h =
      second-absent cluster_bytes (OkPool Clusters n) (clusters-free n hn) (λ c l. list_bytes l) (λ c l. OkPool Lists n l) s at q f h

  -- a direction's bytes, as those of its machine and of the rest
  opened : (d : Side) (rest : List ℕ) → drop at s ≡ write_side d ++ rest
      → drop at s ≡ (machine_bytes d.machine ++ values_bytes (d.clusters, d.lists)) ++ rest
  opened d rest e = e ∙ ap (λ (l : List ℕ). l ++ rest) (side-parts d)

  pub side-none : Absent machine_bytes (OkMaybe n) s at → Absent write_side (OkSide n) s at
  side-none h d rest o e =
      first_absent machine_bytes (OkMaybe n) (machine-free n hn) (λ m p. values_bytes p) (λ m p. OkValues n p) s at h
      (d.machine, (d.clusters, d.lists)) rest (o.machine, ((o.cluster-count, o.clusters), (o.list_count, o.lists))) (opened d rest e)

  pub side-parse : (q : ℕ) → Found machine_bytes (OkMaybe n) s at q → (r : Option ℕ) → Parses values_bytes (OkValues n) s q r
      → Parses write_side (OkSide n) s at r
  side-parse q f (Some t) h =
      let g = both_found machine_bytes (OkMaybe n) (machine-free n hn) (λ m p. values_bytes p) (λ m p. OkValues n p) s at q f t h in
      let d : Side = record { machine = g.0.0; clusters = g.0.1.0; lists = g.0.1.1 } in (
        d,
        record {
          machine = g.1.0;
          cluster-count = g.1.1.0.0;
          clusters = g.1.1.0.1;
          list_count = g.1.1.1.0;
          lists = g.1.1.1.1;
        },
        g.2,
        g.3 ∙ ap (λ (l : List ℕ). l ++ drop t s) (sym (side-parts d)),
      )
  side-parse q f None h = λ d rest o e.
      second-absent machine_bytes (OkMaybe n) (machine-free n hn) (λ m p. values_bytes p) (λ m p. OkValues n p) s at q f h
      (d.machine, (d.clusters, d.lists)) rest (o.machine, ((o.cluster-count, o.clusters), (o.list_count, o.lists))) (opened d rest e)
