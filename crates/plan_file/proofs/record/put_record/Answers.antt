use Rattle.std.proofs.Common.{◌*◌, [], ◌∷◌, ◌++◌, length, refl}
use Rattle.plan_file.specs.Bytes.{be64}
use Rattle.plan_file.specs.Records.{tag_bytes}
use Rattle.plan_file.proofs.Lent.{lent_behind}
use Rattle.plan_file.proofs.record.put_record.Goals as goal

pub returns-clause-bytes : goal.returns-clause-bytes
returns-clause-bytes c =
    let ts = c.args.tags.now in
    λ _. lent_behind (be64 c.args.head.length ++ c.args.head.kind ∷ []) c.args.buf.now c.put_head.new.buf (tag_bytes ts) c.put_tags.new.buf 9 (2 * length ts) refl c.put_head.ensures c.put_tags.ensures
