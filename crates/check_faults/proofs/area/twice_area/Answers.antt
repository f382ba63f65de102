use Rattle.check_faults.proofs.Wide.{product_fits, area_fits, area_read}
use Rattle.check_faults.proofs.area.twice_area.Goals as goal

pub overflow_mul-result : goal.overflow_mul-result
overflow_mul-result c =
    let s = c.requires in
    product_fits _ _ _ _ s.q_small.u s.p_small.u s.r_small.v s.p_small.v

pub overflow_mul-result-2 : goal.overflow_mul-result-2
overflow_mul-result-2 c =
    let s = c.requires in
    product_fits _ _ _ _ s.r_small.u s.p_small.u s.q_small.v s.p_small.v

pub overflow_sub-result-5 : goal.overflow_sub-result-5
overflow_sub-result-5 c =
    let s = c.requires in
    area_fits _ _ _ s.p_small s.q_small s.r_small

pub returns : goal.returns
returns c =
    let s = c.requires in
    area_read _ _ _ s.p_small s.q_small s.r_small
