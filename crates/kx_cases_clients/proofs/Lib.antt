mod LastValues
