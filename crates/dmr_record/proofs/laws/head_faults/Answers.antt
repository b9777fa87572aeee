use Rattle.dmr_record.proofs.HeadLemmas.{head_no_fault, head_one_fault}
use Rattle.dmr_record.proofs.Readings.{is_device_fault-read}
use Rattle.dmr_record.proofs.laws.head_faults.Goals as goal

pub returns : goal.returns
returns c = record {
  none = λ magic rest e four has. is_device_fault-read e (head_no_fault magic e has.taken has.rest rest four has.shown has.end
      has.split);
  one = head_one_fault;
}
