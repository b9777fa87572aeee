-- The records of the outgoing list, one behind another.
use Rattle.std.proofs.Common.{◌≡◌, ℕ, zero, suc, ◌<◌, List, [], ◌∷◌, ◌++◌, take, drop, get_or, length, Option, ap, sym, ◌∙◌}
use Rattle.std.proofs.Common.{subst, arith, refl}
use Rattle.std.proofs.lemmas.Grind.{flat_map-append}
use Rattle.std.specs.Io.KnownBytes.{Appends}
use Rattle.dmr_planning.specs.Sending.{planned_sendings, said_records}
use Rattle.dmr_planning.specs.declared.sends.PlannedSend.{PlannedSend}
use Rattle.dmr_record.proofs.Torn.{Tears_after, Tears_more}
use Rattle.dmr_record.specs.Devices.{Tears}
use Rattle.dmr_record.specs.Outgoing.{Sending, sending_octets, sendings_octets}
use Rattle.dmr_script.specs.declared.statement.NumberedStatement.{NumberedStatement}

-- the octets of some records and of others behind them
octets_split : (statements : List NumberedStatement) (xs ys : List PlannedSend)
    → sendings_octets (planned_sendings statements (xs ++ ys))
    ≡ sendings_octets (planned_sendings statements xs) ++ sendings_octets (planned_sendings statements ys)
octets_split statements xs ys =
    ap (λ (l : List Sending). sendings_octets l) (flat_map-append (said_records statements) xs ys)
    ∙ flat_map-append sending_octets (planned_sendings statements xs) (planned_sendings statements ys)

-- a list is what stands in front of a place, that, and what stands behind it
list_split : {X : Type 0} (xs : List X) (i : ℕ) (d : X) → i < length xs → xs ≡ take i xs ++ (get_or xs i d ∷ drop (suc i) xs)
list_split [] i d lt = absurd (omega arith)
list_split (x ∷ xs) zero d lt = refl
list_split (x ∷ xs) (suc i) d lt = ap (λ (l : List _). x ∷ l) (list_split xs i d (omega arith))

-- the sink failed in the record behind some that were written
pub torn_behind : (statements : List NumberedStatement) (xs : List PlannedSend) (i : ℕ) (d : PlannedSend)
    → (old mid new : Option (List ℕ)) → i < length xs
    → Appends old mid (sendings_octets (planned_sendings statements (take i xs)))
    → Tears mid new (sendings_octets (said_records statements (get_or xs i d)))
    → Tears old new (sendings_octets (planned_sendings statements xs))
torn_behind statements xs i d old mid new lt front torn =
    let x : PlannedSend = get_or xs i d in
    let rest : List PlannedSend = drop (suc i) xs in
    let one : planned_sendings statements (x ∷ rest) ≡ said_records statements x ++ planned_sendings statements rest = refl in
    let octets : sendings_octets (planned_sendings statements (x ∷ rest))
    ≡ sendings_octets (said_records statements x) ++ sendings_octets (planned_sendings statements rest) =
    flat_map-append sending_octets (said_records statements x) (planned_sendings statements rest) in
    let whole : sendings_octets (planned_sendings statements xs)
    ≡ sendings_octets (planned_sendings statements (take i xs)) ++ sendings_octets (planned_sendings statements (x ∷ rest)) =
    ap (λ (l : List PlannedSend). sendings_octets (planned_sendings statements l)) (list_split xs i d lt)
    ∙ octets_split statements (take i xs) (x ∷ rest) in
    subst (Tears old new) (sym whole)
    (Tears_after old mid new (sendings_octets (planned_sendings statements (take i xs)))
    (sendings_octets (planned_sendings statements (x ∷ rest))) front
    (subst (Tears mid new) (sym octets)
    (Tears_more mid new (sendings_octets (said_records statements x)) (sendings_octets (planned_sendings statements rest)) torn)))
