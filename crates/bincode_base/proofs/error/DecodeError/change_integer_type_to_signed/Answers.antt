use Rattle.bincode_base.proofs.error.DecodeError.change_integer_type_to_signed.Goals as goal

pub returns-in-InvalidIntegerType : goal.returns-in-InvalidIntegerType
returns-in-InvalidIntegerType c = rw c.in-InvalidIntegerType.is (cc)
