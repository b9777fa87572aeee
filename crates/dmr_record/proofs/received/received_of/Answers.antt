use Rattle.std.proofs.Common.{rules, arith, ◌≡◌, ◌<◌, ℕ, inl, inr, length, get_or, slice_index_or, subst}
use Rattle.dmr_record.specs.Received.{ReceivedFields, FitsReceived, received_field_octets}
use Rattle.dmr_record.proofs.Numbers.{received_fields_spelled, source_fits}
use Rattle.dmr_record.proofs.received.received_of.Goals as goal

abbrev fields : ℕ → ℕ → ℕ → ℕ → ℕ → ReceivedFields
fields frame slot kind source count = record { frame = frame; slot = slot; kind = kind; source = source; count = count }

pub returns-in_default-clause-none : goal.returns-in_default-clause-none
returns-in_default-clause-none c =
    let eleven : length c.args.octets ≡ 11 = search rules in
    let each : (i : ℕ) → get_or c.args.octets i 0 < 256 = search rules in
    let f = fields c.read_u32-frame.result (slice_index_or c.args.octets 4 0) (slice_index_or c.args.octets 5 0)
    c.read_u24-source.result c.read_u16-length.result in
    let high = c.in_default.ensures.none in
    let fit : FitsReceived f = record {
      frame = search rules;
      source = source_fits c.args.octets _ eleven each c.read_u24-source.ensures;
      count = search rules;
    } in (
      f,
      fit,
      (λ place. let low = place.1 in omega arith),
      received_fields_spelled c.args.octets _ _ _ eleven each
          c.read_u32-frame.ensures c.read_u24-source.ensures c.read_u16-length.ensures,
    )

pub returns-then-slot-ne2-clause-none : goal.returns-then-slot-ne2-clause-none
returns-then-slot-ne2-clause-none c =
    let eleven : length c.args.octets ≡ 11 = search rules in
    let each : (i : ℕ) → get_or c.args.octets i 0 < 256 = search rules in
    let f = fields c.read_u32-frame.result (slice_index_or c.args.octets 4 0) (slice_index_or c.args.octets 5 0)
    c.read_u24-source.result c.read_u16-length.result in
    let fit : FitsReceived f = record {
      frame = search rules;
      source = source_fits c.args.octets _ eleven each c.read_u24-source.ensures;
      count = search rules;
    } in (
      f,
      fit,
      (λ place. elim place.0 [ inl one ↦ c.if-slot-ne1.true one | inr two ↦ c.if-slot-ne2.true two ]),
      received_fields_spelled c.args.octets _ _ _ eleven each c.read_u32-frame.ensures c.read_u24-source.ensures
          c.read_u16-length.ensures,
    )

pub returns-clause-fields : goal.returns-clause-fields
returns-clause-fields c =
    let eleven : length c.args.octets ≡ 11 = search rules in
    let each : (i : ℕ) → get_or c.args.octets i 0 < 256 = search rules in
    let spelled = received_fields_spelled c.args.octets _ _ _ eleven each c.read_u32-frame.ensures c.read_u24-source.ensures
    c.read_u16-length.ensures in
    subst (λ (k : ℕ). c.args.octets ≡ received_field_octets (fields c.read_u32-frame.result (slice_index_or c.args.octets 4 0) k
    c.read_u24-source.result c.read_u16-length.result))
    c.in-Some.ensures.kind spelled

pub returns-clause-fit : goal.returns-clause-fit
returns-clause-fit c =
    let eleven : length c.args.octets ≡ 11 = search rules in
    let each : (i : ℕ) → get_or c.args.octets i 0 < 256 = search rules in
    record {
      frame = search rules;
      source = source_fits c.args.octets _ eleven each c.read_u24-source.ensures;
      count = search
          rules;
    }
