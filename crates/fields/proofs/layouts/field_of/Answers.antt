use Rattle.std.proofs.Common.{rules}
use Rattle.fields.proofs.Reading.{field_reads}
use Rattle.fields.proofs.layouts.field_of.Goals as goal

pub returns-in-Book : goal.returns-in-Book
returns-in-Book c =
    let reads = field_reads c.args.source c.args.offset c.args.tag c.args.value.now c.type_inv.value c.book_field.result (search rules) in
    record { value = search rules; read = reads.0; stands = reads.1 }

pub returns-in-Work : goal.returns-in-Work
returns-in-Work c =
    let reads = field_reads c.args.source c.args.offset c.args.tag c.args.value.now c.type_inv.value c.work_field.result (search rules) in
    record { value = search rules; read = reads.0; stands = reads.1 }
