use Rattle.std.proofs.Common.{◌+◌, take, sym, ap, ◌∙◌, subst, arith}
use Rattle.dmr_compare.proofs.ListReading.{as_long, fault_behind, reader_on}
use Rattle.dmr_compare.specs.ListReading.{ShowsListFault, length_of}
use Rattle.dmr_record.specs.declared.fault.RecordFault.{RecordFault}
use Rattle.dmr_compare.proofs.list_reader.ListReader.next.Goals as goal

-- a record that was read stands behind those before it
pub returns-in-Ok-Some-clause-read : goal.returns-in-Ok-Some-clause-read
returns-in-Ok-Some-clause-read g c = λ records start h.
    let self = c.args.self.now in
    let head = c.in-Ok-Some.head in
    let octets = take (length_of head) c.read_next.new.room in
    let behind = rw c.in-Ok-Some.field-0-is at c.in-Ok-Some.ensures.behind in
    let took = rw c.in-Ok-Some.field-0-is at c.in-Ok-Some.ensures.octets in
    let long = c.octets.ensures.value octets (as_long self.last self.count head octets behind) in
    reader_on self.last c.last-self.result self.count self.octet (self.octet + c.octets.result) self.is_over head octets records
    start (g.S.Source.left c.args.source.now) (g.S.Source.left c.read_next.new.source) h c.if-self.false behind took
    c.last-self.ensures.value (ap (λ n. self.octet + n) long) (omega (arith, c.octets.ensures.few))

-- the record behind those before it shows a fault
pub returns-in-Err-clause-fault : goal.returns-in-Err-clause-fault
returns-in-Err-clause-fault g c = λ records start h.
    let self = c.args.self.now in
    let (taken, took, shown) = c.in-Err.ensures.fault in
    fault_behind self.last self.count c.fault_line.result taken records start (g.S.Source.left c.args.source.now)
    (g.S.Source.left c.read_next.new.source) h.read h.count took
    (subst (λ (f : RecordFault). ShowsListFault self.last self.count f taken) (sym c.fault_line.ensures.fault) shown)
    (c.fault_line.ensures.octet ∙ h.octet) c.fault_line.ensures.place
