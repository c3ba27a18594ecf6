use Rattle.elements.specs.declared.ptype.PType.TheVariants.{U8, U16, U32, U64, I8, I16, I32, I64, F16, F32, F64}
use Rattle.export.proofs.Lists.{by_kind}
use Rattle.export.proofs.numeric.compare_numbers.Goals as goal

pub returns-in-U8-clause-writes : goal.returns-in-U8-clause-writes
returns-in-U8-clause-writes c = by_kind c.args.kind U8 c.args.asked.now c.compare_kind.result c.args.out.now _ c.in-U8.is c.compare_kind.ensures.writes

pub returns-in-U16-clause-writes : goal.returns-in-U16-clause-writes
returns-in-U16-clause-writes c = by_kind c.args.kind U16 c.args.asked.now c.compare_kind-in-U16.result c.args.out.now _ c.in-U16.is c.compare_kind-in-U16.ensures.writes

pub returns-in-U32-clause-writes : goal.returns-in-U32-clause-writes
returns-in-U32-clause-writes c = by_kind c.args.kind U32 c.args.asked.now c.compare_kind-in-U32.result c.args.out.now _ c.in-U32.is c.compare_kind-in-U32.ensures.writes

pub returns-in-U64-clause-writes : goal.returns-in-U64-clause-writes
returns-in-U64-clause-writes c = by_kind c.args.kind U64 c.args.asked.now c.compare_kind-in-U64.result c.args.out.now _ c.in-U64.is c.compare_kind-in-U64.ensures.writes

pub returns-in-I8-clause-writes : goal.returns-in-I8-clause-writes
returns-in-I8-clause-writes c = by_kind c.args.kind I8 c.args.asked.now c.compare_kind-in-I8.result c.args.out.now _ c.in-I8.is c.compare_kind-in-I8.ensures.writes

pub returns-in-I16-clause-writes : goal.returns-in-I16-clause-writes
returns-in-I16-clause-writes c = by_kind c.args.kind I16 c.args.asked.now c.compare_kind-in-I16.result c.args.out.now _ c.in-I16.is c.compare_kind-in-I16.ensures.writes

pub returns-in-I32-clause-writes : goal.returns-in-I32-clause-writes
returns-in-I32-clause-writes c = by_kind c.args.kind I32 c.args.asked.now c.compare_kind-in-I32.result c.args.out.now _ c.in-I32.is c.compare_kind-in-I32.ensures.writes

pub returns-in-I64-clause-writes : goal.returns-in-I64-clause-writes
returns-in-I64-clause-writes c = by_kind c.args.kind I64 c.args.asked.now c.compare_kind-in-I64.result c.args.out.now _ c.in-I64.is c.compare_kind-in-I64.ensures.writes

pub returns-in-F16-clause-writes : goal.returns-in-F16-clause-writes
returns-in-F16-clause-writes c = by_kind c.args.kind F16 c.args.asked.now c.compare_kind-in-F16.result c.args.out.now _ c.in-F16.is c.compare_kind-in-F16.ensures.writes

pub returns-in-F32-clause-writes : goal.returns-in-F32-clause-writes
returns-in-F32-clause-writes c = by_kind c.args.kind F32 c.args.asked.now c.compare_kind-in-F32.result c.args.out.now _ c.in-F32.is c.compare_kind-in-F32.ensures.writes

pub returns-in-F64-clause-writes : goal.returns-in-F64-clause-writes
returns-in-F64-clause-writes c = by_kind c.args.kind F64 c.args.asked.now c.compare_kind-in-F64.result c.args.out.now _ c.in-F64.is c.compare_kind-in-F64.ensures.writes
