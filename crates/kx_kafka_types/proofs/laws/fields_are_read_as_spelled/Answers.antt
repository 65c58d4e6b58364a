use Rattle.kx_kafka_types.proofs.Exact.{fields_agree, one_value}
use Rattle.kx_kafka_types.proofs.laws.fields_are_read_as_spelled.Goals as goal

pub returns-clause-found : goal.returns-clause-found
returns-clause-found c = λ version fields bytes rest v fits e.
    let t = (fields_agree version fields).takes bytes (v, rest) fits e in
    (t.text, t.is, t.parts)

pub returns-clause-only : goal.returns-clause-only
returns-clause-only c = λ version fields text rest v h.
    (fields_agree version fields).again v text rest h

pub returns-clause-one : goal.returns-clause-one
returns-clause-one c = one_value

pub returns-clause-cut : goal.returns-clause-cut
returns-clause-cut c = λ version fields text more v fits some h.
    (fields_agree version fields).cuts v text more fits some h
