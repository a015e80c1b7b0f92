use Rattle.scan_parts.proofs.SpellLaws.{has_first, has_second}
use Rattle.scan_parts.proofs.spelling.spell.Goals as goal

pub enc_operand-a-requires : goal.enc_operand-a-requires
enc_operand-a-requires c = c.requires.operand _ (has_first c.args.nodes.now c.args.i c.if-op-lt-OP_ADD.false)

pub enc_operand-b-requires : goal.enc_operand-b-requires
enc_operand-b-requires c = c.requires.operand _ (has_second c.args.nodes.now c.args.i c.if-op-lt-OP_ADD.false c.if-op-lt-OP_NEG.true)
