use Rattle.std.proofs.Common.{refl, arith}
use Rattle.ev_code.proofs.Spelled.{spelling_length, read_size, ok_spelled, ok_decoded, ok_not_short, ok_not_unknown, err_decoded, err_short, err_unknown}
use Rattle.ev_code.proofs.ReadingForms.{read_reading, refused_reading}
use Rattle.ev_code.proofs.Parts.{IsBytes}
use Rattle.ev_code.proofs.decoding.decode.Goals as goal

pub overflow_sub-size : goal.overflow_sub-size
overflow_sub-size c =
    let are : IsBytes c.args.bytes.now = λ k. omega (arith, c.type_inv.bytes k) in
    omega (arith, read_size c.args.bytes.now c.in-Ok.found c.in-Ok.rest.now are (c.in-Ok.ensures {u = tt}))

pub overflow_cast-result : goal.overflow_cast-result
overflow_cast-result c =
    let are : IsBytes c.args.bytes.now = λ k. omega (arith, c.type_inv.bytes k) in
    omega (arith, spelling_length c.in-Ok.found, read_size c.args.bytes.now c.in-Ok.found c.in-Ok.rest.now are (c.in-Ok.ensures {u = tt}))

pub returns-in-Ok-clause-spelled : goal.returns-in-Ok-clause-spelled
returns-in-Ok-clause-spelled c = ok_spelled c.args.bytes.now c.in-Ok.found c.in-Ok.rest.now _ (λ k. omega (arith, c.type_inv.bytes k))
    (c.in-Ok.ensures {u = tt}) refl

pub returns-in-Ok-clause-decoded : goal.returns-in-Ok-clause-decoded
returns-in-Ok-clause-decoded c = ok_decoded c.args.bytes.now c.in-Ok.found c.in-Ok.rest.now _ (λ k. omega (arith, c.type_inv.bytes k))
    (c.in-Ok.ensures {u = tt}) refl

pub returns-in-Ok-clause-short : goal.returns-in-Ok-clause-short
returns-in-Ok-clause-short c = ok_not_short c.args.bytes.now c.in-Ok.found c.in-Ok.rest.now _ (c.in-Ok.ensures {u = tt})

pub returns-in-Ok-clause-unknown : goal.returns-in-Ok-clause-unknown
returns-in-Ok-clause-unknown c = ok_not_unknown c.args.bytes.now c.in-Ok.found c.in-Ok.rest.now _ (λ k. omega (arith, c.type_inv.bytes k))
    (c.in-Ok.ensures {u = tt})

pub returns-in-Err-clause-decoded : goal.returns-in-Err-clause-decoded
returns-in-Err-clause-decoded c = err_decoded c.args.bytes.now c.in-Err.fault (c.in-Err.ensures {u = tt})

pub returns-in-Err-clause-short : goal.returns-in-Err-clause-short
returns-in-Err-clause-short c = err_short c.args.bytes.now c.in-Err.fault (λ k. omega (arith, c.type_inv.bytes k)) (c.in-Err.ensures {u = tt})

pub returns-in-Err-clause-unknown : goal.returns-in-Err-clause-unknown
returns-in-Err-clause-unknown c = err_unknown c.args.bytes.now c.in-Err.fault (λ k. omega (arith, c.type_inv.bytes k)) (c.in-Err.ensures {u = tt})

pub returns-in-Ok-clause-reading : goal.returns-in-Ok-clause-reading
returns-in-Ok-clause-reading c = read_reading c.args.bytes.now c.in-Ok.found c.in-Ok.rest.now (λ k. omega (arith, c.type_inv.bytes k))
    (c.in-Ok.ensures {u = tt})

pub returns-in-Err-clause-reading : goal.returns-in-Err-clause-reading
returns-in-Err-clause-reading c = refused_reading c.args.bytes.now c.in-Err.fault (c.in-Err.ensures {u = tt})
