-- Tables read as lists of weights. Assumes nothing.
use Rattle.std.proofs.Common.{◌≡◌, ℕ, List, [], map, get_or, set, ℤ, ◌∙◌, ap, sym}
use Rattle.std.proofs.Math.ListN.{get_or-map}
use Rattle.std.proofs.lemmas.List.{map-set}
use Rattle.load.specs.declared.table.Weights.{Weights}
use Rattle.load.specs.declared.table.Table.{Table}
use Rattle.load.specs.Tables.{weights_in, tables_in}
use Rattle.load.proofs.Weighing.{written}

-- past the last position or sheet
abbrev pub no_weights : Weights
no_weights = record { amounts = [] }

abbrev pub no_table : Table
no_table = record { weights = [] }

-- the weights of a position, and the table of a sheet
pub weights_at : (weights : List Weights) (p : ℕ) → get_or (map (λ w. w.amounts) weights) p [] ≡ (get_or weights p no_weights).amounts
weights_at weights p = get_or-map (λ (w : Weights). w.amounts) weights p no_weights

pub table_at : (tables : List Table) (s : ℕ) → get_or (tables_in tables) s [] ≡ weights_in (get_or tables s no_table)
table_at tables s = get_or-map weights_in tables s no_table

-- one weight written over
pub weight_written : (weights : List Weights) (p o : ℕ) (z : ℤ) → map (λ w. w.amounts) (set weights p (record { amounts = set (get_or weights p no_weights).amounts o z })) ≡ written (map (λ w. w.amounts) weights) p o z
weight_written weights p o z =
    map-set (λ (w : Weights). w.amounts) weights p (record { amounts = set (get_or weights p no_weights).amounts o z })
    ∙ ap (λ l. set (map (λ (w : Weights). w.amounts) weights) p (set l o z)) (sym (weights_at weights p))

-- one table written over
pub table_written : (tables : List Table) (s : ℕ) (t : Table) → tables_in (set tables s t) ≡ set (tables_in tables) s (weights_in t)
table_written tables s t = map-set weights_in tables s t
